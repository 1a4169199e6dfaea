-- `numbers::read::read_part` meets its contract. Assumes nothing.
use mathlib.Core.Path.{refl, sym, ◌∙◌}
use mir.Facts.{to_z-of_z}
use mir.Syntax.{w8, w16}
use Rattle.numbers.specs.Numbers.{mesh_numbers}
use Rattle.numbers.proofs.Steps.{kept, stored, uplink_whole, downlink_whole, event_whole, command_whole}
use Rattle.numbers.proofs.read.read_part.Goals as goal

pub returns-in-Refused : goal.returns-in-Refused
returns-in-Refused c =
    (let both = kept _ _ _ _ _ (uplink_whole c.args.mhdr _ _ _ c.args.body.now _ c.in-Uplink.is (sym c.in-Refused.is ∙ c.read_at.ensures)) in record { answer = both.0; numbers = both.1.0; rssi = both.1.1.0; snr = both.1.1.1 })

pub returns-in-Payload : goal.returns-in-Payload
returns-in-Payload c =
    (let both = stored _ _ _ _ _ _ _ _ (uplink_whole c.args.mhdr _ _ _ c.args.body.now _ c.in-Uplink.is (sym c.in-Payload.is ∙ c.read_at.ensures)) c.uplink_numbers.ensures (to_z-of_z {w = w16} (record { sfits = c.struct_told-1.given.1.1.0.1 })) (to_z-of_z {w = w8} (record { sfits = c.struct_told-in-Payload-1.given.1.1.1.0.1 })) in record { answer = both.0; numbers = both.1.0; rssi = both.1.1.0; snr = both.1.1.1 })

pub returns-in-Refused-read_at : goal.returns-in-Refused-read_at
returns-in-Refused-read_at c =
    (let both = kept _ _ _ _ _ (downlink_whole c.args.mhdr _ _ _ c.args.body.now _ c.in-Downlink.is (sym c.in-Refused-read_at.is ∙ c.read_at-in-Downlink.ensures)) in record { answer = both.0; numbers = both.1.0; rssi = both.1.1.0; snr = both.1.1.1 })

pub returns-in-Payload-read_at : goal.returns-in-Payload-read_at
returns-in-Payload-read_at c =
    (let both = stored _ _ _ _ _ _ _ _ (downlink_whole c.args.mhdr _ _ _ c.args.body.now _ c.in-Downlink.is (sym c.in-Payload-read_at.is ∙ c.read_at-in-Downlink.ensures)) c.downlink_numbers.ensures refl refl in record { answer = both.0; numbers = both.1.0; rssi = both.1.1.0; snr = both.1.1.1 })

pub returns-in-Refused-read_at-2 : goal.returns-in-Refused-read_at-2
returns-in-Refused-read_at-2 c =
    (let both = kept _ _ _ _ _ (event_whole c.args.mhdr _ _ _ c.args.body.now _ c.in-Event.is (sym c.in-Refused-read_at-2.is ∙ c.read_at-in-Event.ensures)) in record { answer = both.0; numbers = both.1.0; rssi = both.1.1.0; snr = both.1.1.1 })

pub returns-in-Payload-read_at-2 : goal.returns-in-Payload-read_at-2
unfolding mesh_numbers
returns-in-Payload-read_at-2 c =
    (let both = stored _ _ _ _ _ _ _ _ (event_whole c.args.mhdr _ _ _ c.args.body.now _ c.in-Event.is (sym c.in-Payload-read_at-2.is ∙ c.read_at-in-Event.ensures)) c.stamped_numbers.ensures refl refl in record { answer = both.0; numbers = both.1.0; rssi = both.1.1.0; snr = both.1.1.1 })

pub returns-in-Refused-read_at-3 : goal.returns-in-Refused-read_at-3
returns-in-Refused-read_at-3 c =
    (let both = kept _ _ _ _ _ (command_whole c.args.mhdr _ _ _ c.args.body.now _ c.in-Command.is (sym c.in-Refused-read_at-3.is ∙ c.read_at-in-Command.ensures)) in record { answer = both.0; numbers = both.1.0; rssi = both.1.1.0; snr = both.1.1.1 })

pub returns-in-Payload-read_at-3 : goal.returns-in-Payload-read_at-3
unfolding mesh_numbers
returns-in-Payload-read_at-3 c =
    (let both = stored _ _ _ _ _ _ _ _ (command_whole c.args.mhdr _ _ _ c.args.body.now _ c.in-Command.is (sym c.in-Payload-read_at-3.is ∙ c.read_at-in-Command.ensures)) c.stamped_numbers-in-Payload-read_at-3.ensures refl refl in record { answer = both.0; numbers = both.1.0; rssi = both.1.1.0; snr = both.1.1.1 })
