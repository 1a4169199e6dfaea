-- `numbers::back::place_of` meets its contract. Assumes nothing.
use mathlib.Core.Path.{sym, ap, ◌∙◌}
use Rattle.numbers.specs.Numbers.{payload_place}
use Rattle.numbers.proofs.back.place_of.Goals as goal

pub returns-in-Uplink : goal.returns-in-Uplink
returns-in-Uplink c =
    rw c.in-Uplink.is

pub returns-in-Downlink : goal.returns-in-Downlink
returns-in-Downlink c =
    rw c.in-Downlink.is

pub returns-in-Event : goal.returns-in-Event
returns-in-Event c =
    c.content_place.ensures ∙ ap payload_place (sym c.in-Event.is)

pub returns-in-Command : goal.returns-in-Command
returns-in-Command c =
    c.content_place-in-Command.ensures ∙ ap payload_place (sym c.in-Command.is)
