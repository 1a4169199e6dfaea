-- `numbers::read::content_place` meets its contract. Assumes nothing.
use Rattle.numbers.proofs.read.content_place.Goals as goal

pub returns-in-Empty : goal.returns-in-Empty
returns-in-Empty c =
    rw c.in-Empty.is

pub returns-in-Sealed : goal.returns-in-Sealed
returns-in-Sealed c =
    rw c.in-Sealed.is

pub returns-in-Frame : goal.returns-in-Frame
returns-in-Frame c =
    rw (c.in-Open.is, c.in-Frame.is)

pub returns-in-Work : goal.returns-in-Work
returns-in-Work c =
    rw (c.in-Open.is, c.in-Work.is)

pub returns-in-Items : goal.returns-in-Items
returns-in-Items c =
    rw c.in-Items.is
