-- What the walks share: a loop of n turns, from a turn that takes `At i` to `At (i + 1)` where i < n, and one that leaves the loop at n.
-- Assumes `Logic`.
use mathlib.Core.Path.{◌≡◌, refl, subst}
use mathlib.Core.Bool.{Bool, true, false}
use mathlib.Core.Logic.{◌⊎◌, inl, inr, ⊎_elim}
use Prim.Native.Nat.{ℕ, suc, ◌-◌, ◌<◌, ◌≤◌}
use native.Mathlib.Omega.{arith}
use lib.Dec.{ltb}
use lib.WfN.{lt-wf_rel}
use seplogic.Ra.Ura.{Ura}
use mir.Syntax.{Body, loop}
use base.Logic.{SProp, ent, ex, guard, via, ex_i, ex_e, guard_i, guard_e}
use prog.Wp.{Out, Env, after_turn, Wp, Tables}
use types.Logic.{Logic}
use sound.Loop.{loop_rule}
use borrow.Author.Tests.{ltb-true, ltb-false}

cases : (m n : ℕ) → (m < n) ⊎ (n ≤ m)
cases m n = go (ltb m n) refl
  where
    go : (b : Bool) → ltb m n ≡ b → (m < n) ⊎ (n ≤ m)
    go true e = inl (ltb-true m n e)
    go false e = inr (ltb-false m n e)

module _ {M : Type 1} {𝓤 : Ura M} (𝓛 : Logic 𝓤) (𝓣 : Tables 𝓤 𝓛.H) (En : Env 𝓤 𝓛.H) (turn : Body) (Left : Out → SProp 𝓤) (At : ℕ → SProp 𝓤) (n : ℕ)
    (more : (i : ℕ) (X : SProp 𝓤) → i < n → ent 𝓤 (At (suc i)) X → ent 𝓤 (At i) (Wp 𝓤 𝓛.H 𝓣.C 𝓣.Λ En turn (after_turn 𝓤 𝓛.H X Left)))
    (ends : (X : SProp 𝓤) → ent 𝓤 (At n) (Wp 𝓤 𝓛.H 𝓣.C 𝓣.Λ En turn (after_turn 𝓤 𝓛.H X Left))) where
  open 𝓛 use {H}

  abbrev Facts : ℕ → ℕ → Type 0
  Facts t i = (t ≡ n - i) × (i ≤ n)

  -- the invariant, where t turns are left
  abbrev Inv : ℕ → SProp 𝓤
  Inv t = ex 𝓤 (λ (i : ℕ). guard 𝓤 (Facts t i) (At i))

  abbrev Below : ℕ → SProp 𝓤
  Below t = ex 𝓤 (λ (t' : ℕ). guard 𝓤 (t' < t) (Inv t'))

  inv : (i : ℕ) → i ≤ n → ent 𝓤 (At i) (Inv (n - i))
  inv i h = via 𝓤 (guard 𝓤 (Facts (n - i) i) (At i)) (guard_i 𝓤 (Facts (n - i) i) (At i) (refl, h)) (ex_i 𝓤 (λ (j : ℕ). guard 𝓤 (Facts (n - i) j) (At j)) i)

  below : (t i : ℕ) → n - suc i < t → suc i ≤ n → ent 𝓤 (At (suc i)) (Below t)
  below t i less h =
      via 𝓤 (Inv (n - suc i)) (inv (suc i) h)
      (via 𝓤 (guard 𝓤 (n - suc i < t) (Inv (n - suc i))) (guard_i 𝓤 (n - suc i < t) (Inv (n - suc i)) less) (ex_i 𝓤 (λ (u : ℕ). guard 𝓤 (u < t) (Inv u)) (n - suc i)))

  -- a turn from the invariant at t leaves the loop, or ends in the invariant below t
  turn_at : (t i : ℕ) → Facts t i → ent 𝓤 (At i) (Wp 𝓤 H 𝓣.C 𝓣.Λ En turn (after_turn 𝓤 H (Below t) Left))
  turn_at t i f =
      ⊎_elim (λ (small : i < n). more i (Below t) small (below t i (omega arith) (omega arith)))
      (λ (all : n ≤ i). let e : n ≡ i = omega arith in subst (λ (k : ℕ). ent 𝓤 (At k) (Wp 𝓤 H 𝓣.C 𝓣.Λ En turn (after_turn 𝓤 H (Below t) Left))) e (ends (Below t)))
      (cases i n)

  turns : (t : ℕ) → ent 𝓤 (Inv t) (Wp 𝓤 H 𝓣.C 𝓣.Λ En turn (after_turn 𝓤 H (Below t) Left))
  turns t = ex_e 𝓤 (λ (i : ℕ). guard 𝓤 (Facts t i) (At i)) (λ i. guard_e 𝓤 (Facts t i) (At i) (λ f. turn_at t i f))

  pub counted : ent 𝓤 (At 0) (Wp 𝓤 H 𝓣.C 𝓣.Λ En (loop turn) Left)
  counted = via 𝓤 (Inv (n - 0)) (inv 0 (omega arith)) (loop_rule 𝓤 H 𝓛.laws 𝓣 ◌<◌ lt-wf_rel.wf En turn Left Inv turns (n - 0))
