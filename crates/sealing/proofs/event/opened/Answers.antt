-- `sealing::event::opened` meets its contract. Assumes nothing.
use Rattle.sealing.proofs.event.opened.Goals as goal

pub returns-in-Refused : goal.returns-in-Refused
returns-in-Refused c = rw c.in-Refused.is

pub returns-in-AlreadyOpen : goal.returns-in-AlreadyOpen
returns-in-AlreadyOpen c = rw c.in-AlreadyOpen.is

pub returns-in-Opened : goal.returns-in-Opened
returns-in-Opened c = rw c.in-Opened.is
