-- `fields::freq::steps` meets its contract. Assumes nothing.
use Prim.Native.Nat.{◌/◌, ◌%◌}
use native.Mathlib.Omega.{arith}
use mathlib.Core.Path.{◌≡◌, ap, ◌∙◌}
use borrow.Author.Tests.{lt-ltb, le-ltb, eq-eqb, ne_eqb}
use Rattle.wire.specs.Number.{be_bytes}
use Rattle.fields.specs.Freq.{hertz_in, steps_of, exact_steps}
use Rattle.fields.proofs.Laws.Freq.{at_hundreds}
use Rattle.fields.proofs.freq.steps.Goals as goal

pub returns-then-n-gt-MOST_STEPS : goal.returns-then-n-gt-MOST_STEPS
unfolding exact_steps steps_of
returns-then-n-gt-MOST_STEPS c =
    let f = c.halved-f.result in
    rw (← c.halved-f.ensures) (simp (lt-ltb 16777215 (f / 100) (omega arith)))

pub returns-then-f-ne0 : goal.returns-then-f-ne0
unfolding exact_steps steps_of
returns-then-f-ne0 c =
    let f = c.halved-f.result in
    rw (← c.halved-f.ensures) (simp (le-ltb 16777215 (f / 100) (omega arith), ne_eqb (f % 100) 0 (λ e. omega arith)))

pub returns-then-hertz-freq : goal.returns-then-hertz-freq
unfolding exact_steps steps_of
returns-then-hertz-freq c =
    let f = c.halved-f.result in
    let freq = c.args.freq in
    let h : c.hertz.result ≡ hertz_in (be_bytes 3 (f / 100)) = c.hertz.ensures ∙ ap hertz_in c.be24_bytes-b.ensures in
    let s = at_hundreds (f / 100) f (omega arith) (omega arith) in
    rw (← c.halved-f.ensures) (rw s (rw (← h) (simp (ne_eqb c.hertz.result freq (λ e. omega arith)))))

pub returns : goal.returns
unfolding exact_steps steps_of
returns c =
    let f = c.halved-f.result in
    let freq = c.args.freq in
    let h : c.hertz.result ≡ hertz_in (be_bytes 3 (f / 100)) = c.hertz.ensures ∙ ap hertz_in c.be24_bytes-b.ensures in
    let s = at_hundreds (f / 100) f (omega arith) (omega arith) in
    rw (← c.halved-f.ensures) (rw s (rw (← h) (simp (eq-eqb c.hertz.result freq (omega arith)))))
