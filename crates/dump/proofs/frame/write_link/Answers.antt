-- `dump::frame::write_link` meets its contract. Assumes nothing.
use mathlib.Core.Bool.{not}
use mathlib.Core.Path.{ap}
use Prim.Native.Nat.{ℕ}
use mathlib.Core.List.{List}
use Rattle.links.proofs.Steps.{same_frame}
use Rattle.base.specs.Answers.{bytes}
use Rattle.dump.specs.Dump.{line_of}
use Rattle.dump.specs.Ascii.{ascii}
use Rattle.dump.proofs.Laws.Text.{mic_tail}
use Rattle.dump.proofs.frame.write_link.Goals as goal

pub returns : goal.returns
returns c = let a = c.args in
    (let both = same_frame _ _ _ _ _ (ap (λ (l : List ℕ). bytes (line_of a.t a.hops (ascii ", uplink_id: ") a.id a.relay l a.odd)) (mic_tail a.has_mic a.mic _ _ (ap not c.if-not-has_mic.false) c.put_all.ensures c.put_four.ensures)) (c.write_line-2.ensures.answer, c.write_line-2.ensures.bytes) in record { answer = both.0; bytes = both.1 })
