-- `composed_items::one::encode` meets its contract. Assumes nothing.
use Rattle.items.specs.declared.item.ItemKind.TheVariants.{Encrypted, Heartbeat, Proprietary}
use Rattle.composed_items.proofs.Alone.{by_kind}
use Rattle.composed_items.proofs.one.encode.Goals as goal

pub returns-in-Encrypted : goal.returns-in-Encrypted
returns-in-Encrypted c = (let both = by_kind _ _ _ Encrypted _ _ _ c.in-Encrypted.is (c.encode_sealed.ensures.answer, c.encode_sealed.ensures.bytes) in record { answer = both.0; bytes = both.1 })

pub returns-in-Heartbeat : goal.returns-in-Heartbeat
returns-in-Heartbeat c = (let both = by_kind _ _ _ Heartbeat _ _ _ c.in-Heartbeat.is (c.encode_value.ensures.answer, c.encode_value.ensures.bytes) in record { answer = both.0; bytes = both.1 })

pub returns-in-Proprietary : goal.returns-in-Proprietary
returns-in-Proprietary c = (let both = by_kind _ _ _ Proprietary _ _ _ c.in-Proprietary.is (c.encode_value-in-Proprietary.ensures.answer, c.encode_value-in-Proprietary.ensures.bytes) in record { answer = both.0; bytes = both.1 })
