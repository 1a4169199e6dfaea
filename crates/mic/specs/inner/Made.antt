-- What the functions inside cite: the MIC of what is signed, or the refusal. Assumes nothing.
use Rattle.std.specs.Prelude.{ℕ, List}
use Rattle.base.specs.Answers.{Writing, bytes, refused}
use Rattle.mic.specs.Mic.{mic_of}
use Rattle.mic.specs.declared.Made.{Made}
use Rattle.mic.specs.declared.Made.TheVariants.{Mic, Refused}

unfoldable pub made_of : (List ℕ → List ℕ) → Writing → Made
made_of E (refused n) = Refused n
made_of E (bytes w) = Mic (mic_of E w)
