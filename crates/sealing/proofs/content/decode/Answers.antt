-- `sealing::content::decode` meets its contract. Assumes nothing.
use mathlib.Core.Path.{ap, ap₂, ◌∙◌}
use mathlib.Core.List.{List}
use Prim.Native.Nat.{ℕ}
use lib.ListN.{length}
use Rattle.wire.specs.Run.{run_refusal, run_bytes}
use Rattle.items.specs.Items.{opening_of}
use Rattle.items.specs.declared.count.Opening.{Opening}
use Rattle.sealing.specs.Open.{decode_of, tell_open}
use Rattle.sealing.proofs.content.decode.Goals as goal

pub returns-in-Empty : goal.returns-in-Empty
unfolding decode_of
returns-in-Empty c = rw c.in-Empty.is c.none.ensures

pub returns-in-Sealed : goal.returns-in-Sealed
unfolding decode_of
returns-in-Sealed c = rw c.in-Sealed.is c.read_sealed.ensures

pub returns-in-Open : goal.returns-in-Open
unfolding decode_of
returns-in-Open c = let r = c.in-Open.run' in
    let h = c.held_in-s.ensures in
    rw c.in-Open.is (c.tell_open.ensures
    ∙ ap₂ tell_open
    (ap (λ (o : Opening). o.kept) (c.count_items-told.ensures ∙ ap (opening_of c.args.is_event) (c.bytes.ensures ∙ ap (λ (s : List ℕ). run_bytes s r) h)))
    (c.refusal.ensures ∙ ap (λ (s : List ℕ). run_refusal (length s) r) h))

pub returns-in-Items : goal.returns-in-Items
unfolding decode_of
returns-in-Items c = rw c.in-Items.is c.tell_open-in-Items.ensures
