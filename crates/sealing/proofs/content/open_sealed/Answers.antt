-- `sealing::content::open_sealed` meets its contract. Assumes nothing.
use mathlib.Core.Path.{sym, ap, ◌∙◌}
use lib.ListN.{length}
use Rattle.base.proofs.Answers.{out_length, is_refused}
use Rattle.items.specs.Items.{opening_of}
use Rattle.contents.specs.declared.content.Held.TheVariants.{Work as InWork}
use Rattle.sealing.specs.Open.{opened_as}
use Rattle.sealing.proofs.Steps.{frame_refused, seal_is, not_opened, now_opened}
use Rattle.sealing.proofs.content.open_sealed.Goals as goal

pub returns-then-bad-ne0 : goal.returns-then-bad-ne0
returns-then-bad-ne0 c = let a = c.args in (let both = frame_refused a.is_event a.work.now _ _ (is_refused _ _ _ c.refusal-bad.ensures c.if-bad-ne0.true) in record { answer = both.0; work = both.1 })

pub shape_of-work-in-Refused : goal.shape_of-work-in-Refused
shape_of-work-in-Refused c = ap length c.encrypt_events_commands.ensures.bytes ∙ out_length _ _

pub returns-in-Refused : goal.returns-in-Refused
returns-in-Refused c = let a = c.args in
    rw (← seal_is a.key.0 a.is_event a.relay_id a.timestamp a.frame.now a.run _ _ c.refusal-bad.ensures c.if-bad-ne0.false c.bytes.ensures) (record { answer = not_opened a.is_event a.work.now _ _ (sym c.in-Refused.is ∙ c.encrypt_events_commands.ensures.answer); work = c.encrypt_events_commands.ensures.bytes })

pub shape_of-work-in-Bytes : goal.shape_of-work-in-Bytes
shape_of-work-in-Bytes c = ap length c.encrypt_events_commands.ensures.bytes ∙ out_length _ _

pub returns-in-Bytes : goal.returns-in-Bytes
returns-in-Bytes c = let a = c.args in
    rw (← seal_is a.key.0 a.is_event a.relay_id a.timestamp a.frame.now a.run _ _ c.refusal-bad.ensures c.if-bad-ne0.false c.bytes.ensures) (record { answer = now_opened a.is_event a.work.now _ _ _ _ (sym c.in-Bytes.is ∙ c.encrypt_events_commands.ensures.answer) c.encrypt_events_commands.ensures.bytes (c.by.ensures ∙ ap (opened_as InWork _) (c.count_items.ensures ∙ ap (opening_of _) c.bytes-in-Bytes.ensures)); work = c.encrypt_events_commands.ensures.bytes })
