-- `mic::validate_mic` meets its contract. Assumes nothing.
use borrow.Author.Tests.{not-true, not-false}
use Rattle.fips197.specs.Aes.{aes}
use Rattle.mic.proofs.Steps.{kinds_first, no_mic, not_validated, valid, invalid}
use borrow.Author.Rules.{rules}
use Rattle.mic.proofs.validate_mic.Goals as goal

pub returns-then-strange-ne0 : goal.returns-then-strange-ne0
returns-then-strange-ne0 c = let a = c.args in kinds_first (aes a.key.0) a.lent.now a.p _ c.kinds_refusal-strange.ensures c.if-strange-ne0.true

pub returns-then-not-p : goal.returns-then-not-p
returns-then-not-p c = let a = c.args in no_mic (aes a.key.0) a.lent.now a.p _ c.kinds_refusal-strange.ensures c.if-strange-ne0.false (search (not-true, rules))

pub returns-in-Refused : goal.returns-in-Refused
returns-in-Refused c = let a = c.args in not_validated (aes a.key.0) a.lent.now a.p _ c.kinds_refusal-strange.ensures c.if-strange-ne0.false (not-false _ c.if-not-p.false) _ c.make.ensures _ c.in-Refused.is

pub returns-then-p-mic : goal.returns-then-p-mic
returns-then-p-mic c = let a = c.args in valid (aes a.key.0) a.lent.now a.p _ c.kinds_refusal-strange.ensures c.if-strange-ne0.false (not-false _ c.if-not-p.false) _ c.make.ensures _ c.in-Mic.is c.if-p-mic.true

pub returns-else-p-mic : goal.returns-else-p-mic
returns-else-p-mic c = let a = c.args in invalid (aes a.key.0) a.lent.now a.p _ c.kinds_refusal-strange.ensures c.if-strange-ne0.false (not-false _ c.if-not-p.false) _ c.make.ensures _ c.in-Mic.is c.if-p-mic.false
