-- What it says of a contract that it leaves no choice: any two outcomes that it permits of one call, the answer and what stands behind each
-- `&mut` at exit, coincide. `Post` is the `ensures` as the prover reads it, the generated `Reads.Post` of the function. Assumes nothing.
use Prim.Native.Nat.{ℕ}
use mathlib.Core.List.{List}
use mathlib.Core.Path.{◌≡◌}
use contract.Lifetimes.{Lfts}
use borrow.Fn.Kinds.{ParamKind, ResultKind, Out, Dens, res_t, ended_of}
use denote.Triple.Clauses.{Ended, Clauses, Lasts, at_exit}
use denote.Triple.Entry.{Args, Res}
use seplogic.Ra.Ura.{Ura}
use base.Logic.{SProp, ent, sep, via, fst∗, snd∗}
use prog.Memory.{Memory}
use prog.Routine.{Routine}
use types.Logic.{Logic}
use contract.Monad.{Fun, fact, fact_i, fact_use}

-- of a call that hands back a part of a lent slice: what the part holds, and not where it lies, by `held`
abbrev pub FixedPart : (n : ℕ) (ps : List (ParamKind n)) (r : ResultKind n) → Out n ps r → {A : Lfts n → Type 0} → ((κs : Lfts n) → (res_t r κs).Denot → A κs) → Type 0
FixedPart n ps r Post held =
    (κs : Lfts n) (a : Dens κs ps) (x y : (res_t r κs).Denot) (v w : Lasts (ended_of n ps r) κs a)
    → Post κs a x (at_exit (ended_of n ps r) κs a v) → Post κs a y (at_exit (ended_of n ps r) κs a w) → (held κs x ≡ held κs y) × (v ≡ w)

abbrev pub Fixed : (n : ℕ) (ps : List (ParamKind n)) (r : ResultKind n) → Out n ps r → Type 0
Fixed n ps r Post = FixedPart n ps r Post {A = λ κs. (res_t r κs).Denot} (λ κs x. x)

-- The same of a walked function, which has no `Reads`, over the clauses that its theorem is about: what they say of two outcomes, the answer
-- and what stands behind each `&mut` at exit, gives that the two coincide.
abbrev pub FixedWalk : {M : Type 1} (𝓤 : Ura M) (T : Ended) → ((𝓛 : Logic 𝓤) → (Memory → SProp 𝓤) → (Routine → Fun 𝓤) → Clauses 𝓤 T) → Type 2
FixedWalk 𝓤 T c =
    (𝓛 : Logic 𝓤) (mem : Memory → SProp 𝓤) (run : Routine → Fun 𝓤) (κs : Lfts T.signature.lifetimes) (a : Args T.signature κs)
    (g : (c 𝓛 mem run κs a).ghost) (x y : Res T.signature κs) (v w : Lasts T κs a)
    → ent 𝓤 (sep 𝓤 ((c 𝓛 mem run κs a).ensures g x (at_exit T κs a v)) ((c 𝓛 mem run κs a).ensures g y (at_exit T κs a w))) (fact 𝓤 ((x ≡ y) × (v ≡ w)))

-- two clauses of two outcomes
pub all_four : {M : Type 1} (𝓤 : Ura M) (φ ψ φ' ψ' χ : Type 0) → (φ → ψ → φ' → ψ' → χ) → ent 𝓤 (sep 𝓤 (sep 𝓤 (fact 𝓤 φ) (fact 𝓤 ψ)) (sep 𝓤 (fact 𝓤 φ') (fact 𝓤 ψ'))) (fact 𝓤 χ)
all_four 𝓤 φ ψ φ' ψ' χ f =
    let P = sep 𝓤 (fact 𝓤 φ) (fact 𝓤 ψ) in
    let Q = sep 𝓤 (fact 𝓤 φ') (fact 𝓤 ψ') in
    fact_use 𝓤 φ (via 𝓤 P (fst∗ 𝓤 P Q) (fst∗ 𝓤 (fact 𝓤 φ) (fact 𝓤 ψ))) (λ p.
    fact_use 𝓤 ψ (via 𝓤 P (fst∗ 𝓤 P Q) (snd∗ 𝓤 (fact 𝓤 φ) (fact 𝓤 ψ))) (λ q.
    fact_use 𝓤 φ' (via 𝓤 Q (snd∗ 𝓤 P Q) (fst∗ 𝓤 (fact 𝓤 φ') (fact 𝓤 ψ'))) (λ p'.
    fact_use 𝓤 ψ' (via 𝓤 Q (snd∗ 𝓤 P Q) (snd∗ 𝓤 (fact 𝓤 φ') (fact 𝓤 ψ'))) (λ q'. fact_i 𝓤 χ (sep 𝓤 P Q) (f p q p' q')))))
