-- `sealing::content::decrypt` meets its contract. Assumes nothing.
use mathlib.Core.Path.{refl, ap, ap₂, ◌∙◌}
use mathlib.Core.List.{List}
use Prim.Native.Nat.{ℕ}
use lib.ListN.{length}
use Rattle.base.proofs.Answers.{out_length}
use Rattle.wire.specs.Run.{run_refusal, run_bytes}
use Rattle.items.specs.Items.{opening_of}
use Rattle.items.specs.declared.count.Opening.{Opening}
use Rattle.sealing.specs.Open.{decrypt_of, work_after, refuse_open}
use Rattle.sealing.proofs.content.decrypt.Goals as goal

pub returns-in-Empty : goal.returns-in-Empty
unfolding decrypt_of work_after
returns-in-Empty c = rw c.in-Empty.is (record { answer = c.none.ensures; work = refl })

pub shape_of-work-in-Sealed : goal.shape_of-work-in-Sealed
shape_of-work-in-Sealed c = ap length c.open_sealed.ensures.work ∙ out_length _ _

pub returns-in-Sealed : goal.returns-in-Sealed
unfolding decrypt_of work_after
returns-in-Sealed c = rw c.in-Sealed.is (record { answer = c.open_sealed.ensures.answer; work = c.open_sealed.ensures.work })

pub returns-in-Open : goal.returns-in-Open
unfolding decrypt_of work_after
returns-in-Open c = let r = c.in-Open.run' in
    let h = c.held_in-s.ensures in
    rw c.in-Open.is (record {
      answer = c.refuse_open.ensures
          ∙ ap₂ refuse_open
          (ap (λ (o : Opening). o.kept) (c.count_items-told.ensures ∙ ap (opening_of c.args.is_event) (c.bytes.ensures ∙ ap (λ (s : List ℕ). run_bytes s r) h)))
          (c.refusal.ensures ∙ ap (λ (s : List ℕ). run_refusal (length s) r) h);
      work = refl;
    })

pub returns-in-Items : goal.returns-in-Items
unfolding decrypt_of work_after
returns-in-Items c = rw c.in-Items.is (record { answer = c.refuse_open-in-Items.ensures; work = refl })
