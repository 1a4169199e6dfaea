-- The words in which the promises speak of an answer. Assumes nothing.
use Rattle.std.specs.Prelude.{◌<◌, ◌≡◌}
use Rattle.base.specs.Answers.{Answer, value, number}
use Rattle.wire.specs.declared.parts.Reach.{Reach}
use Rattle.wire.specs.declared.parts.Reach.TheVariants.{Inside, Refused}

-- the call accepted
abbrev pub Accepts : {A : Type 0} → Answer A → Type 0
Accepts {A} a = (v : A) × (a ≡ value v)

-- where the call refused, its number is not 0
abbrev pub Numbered : {A : Type 0} → Answer A → Type 0
Numbered (value v) = Unit {0}
Numbered (number n) = 0 < n

-- a place that lies inside is all that `wire::reaches` answers, beside 45
abbrev pub reach_says : Reach → Answer (Unit {0})
reach_says Inside = value tt
reach_says (Refused n) = number n
