-- A choice by a test, at any type. A definition of what a call answers is a chain `pick test refusal rest`, in the order of section 4 of docs/RULES.md.
-- Assumes nothing.
use Rattle.std.specs.Prelude.{Bool, true, false}

abbrev pub pick {ℓ} : {A : Type ℓ} → Bool → A → A → A
pick true a b = a
pick false a b = b
