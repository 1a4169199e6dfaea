-- `mesh_c::record::mesh_cache_add` meets its contract. Assumes nothing.
use mathlib.Core.Path.{sym, ◌∙◌}
use Rattle.mesh_c.proofs.Added.{wide_id, wide_time, wide_relay, no_such_type, added}
use Rattle.mesh_c.proofs.record.mesh_cache_add.Goals as goal

pub returns-then-record-gt65535 : goal.returns-then-record-gt65535
returns-then-record-gt65535 c =
    (let both = wide_id c.args.words.now c.args.record.now c.args.is_new.now c.if-record-gt65535.true in record { answer = both.0; words = both.1.0; is_new = both.1.1 })

pub returns-then-record : goal.returns-then-record
returns-then-record c =
    (let both = wide_time c.args.words.now c.args.record.now c.args.is_new.now c.if-record-gt65535.false c.if-record.true in record { answer = both.0; words = both.1.0; is_new = both.1.1 })

pub returns-then-record-2 : goal.returns-then-record-2
returns-then-record-2 c =
    (let both = wide_relay c.args.words.now c.args.record.now c.args.is_new.now c.if-record-gt65535.false c.if-record.false c.if-record-2.true in record { answer = both.0; words = both.1.0; is_new = both.1.1 })

pub returns-then-record-3 : goal.returns-then-record-3
returns-then-record-3 c =
    (let both = no_such_type c.args.words.now c.args.record.now c.args.is_new.now c.if-record-gt65535.false c.if-record.false c.if-record-2.false c.if-record-3.true in record { answer = both.0; words = both.1.0; is_new = both.1.1 })

pub returns-in-New : goal.returns-in-New
returns-in-New c =
    (let both = added c.args.words.now c.args.record.now c.args.is_new.now c.if-record-gt65535.false c.if-record.false c.if-record-2.false c.if-record-3.false _ _ _ c.head_word.ensures c.to_u32.ensures c.to_u32-2.ensures _ _ (sym c.in-New.is ∙ c.add_words.ensures.answer, c.add_words.ensures.words) in record { answer = both.0; words = both.1.0; is_new = both.1.1 })

pub returns-in-Seen : goal.returns-in-Seen
returns-in-Seen c =
    (let both = added c.args.words.now c.args.record.now c.args.is_new.now c.if-record-gt65535.false c.if-record.false c.if-record-2.false c.if-record-3.false _ _ _ c.head_word.ensures c.to_u32.ensures c.to_u32-2.ensures _ _ (sym c.in-Seen.is ∙ c.add_words.ensures.answer, c.add_words.ensures.words) in record { answer = both.0; words = both.1.0; is_new = both.1.1 })

pub returns-in-Refused : goal.returns-in-Refused
returns-in-Refused c =
    (let both = added c.args.words.now c.args.record.now c.args.is_new.now c.if-record-gt65535.false c.if-record.false c.if-record-2.false c.if-record-3.false _ _ _ c.head_word.ensures c.to_u32.ensures c.to_u32-2.ensures _ _ (sym c.in-Refused.is ∙ c.add_words.ensures.answer, c.add_words.ensures.words) in record { answer = both.0; words = both.1.0; is_new = both.1.1 })
