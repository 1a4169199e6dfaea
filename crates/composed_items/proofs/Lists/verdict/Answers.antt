-- `composed_items::Lists::verdict` meets its contract. Assumes nothing.
use native.Mathlib.Omega.{arith}
use borrow.Author.Rules.{rules}
use Rattle.composed_items.specs.Composed.{outside_of, bad_path, long_of, uneven_of}
use Rattle.composed_items.proofs.Faults.{strange, few, outside_told, path_told, long_told, uneven_told}
use Rattle.composed_items.proofs.Lists.verdict.Goals as goal

pub returns-then-strange-ne0 : goal.returns-then-strange-ne0
returns-then-strange-ne0 c = strange _ _ _ _ c.kinds_refusal-strange.ensures c.if-strange-ne0.true

pub returns-then-item_count-count : goal.returns-then-item_count-count
returns-then-item_count-count c = few _ _ _ _ c.kinds_refusal-strange.ensures c.if-strange-ne0.false (omega arith)

pub returns-then-outside-ne0 : goal.returns-then-outside-ne0
returns-then-outside-ne0 c =
    let a = c.args in
    let o = c.first-outside.ensures (outside_of a.is_event a.self.now) (λ it r p. search rules) in
    outside_told _ _ _ _ c.kinds_refusal-strange.ensures c.if-strange-ne0.false (omega arith) _ o c.if-outside-ne0.true

pub returns-then-bad-ne0 : goal.returns-then-bad-ne0
returns-then-bad-ne0 c =
    let a = c.args in
    let o = c.first-outside.ensures (outside_of a.is_event a.self.now) (λ it r p. search rules) in
    let p = c.first-bad.ensures (bad_path a.is_event a.self.now) (λ it r p. search rules) in
    path_told _ _ _ _ c.kinds_refusal-strange.ensures c.if-strange-ne0.false (omega arith) _ o c.if-outside-ne0.false _ p c.if-bad-ne0.true

pub returns-then-long-ne0 : goal.returns-then-long-ne0
returns-then-long-ne0 c =
    let a = c.args in
    let o = c.first-outside.ensures (outside_of a.is_event a.self.now) (λ it r p. search rules) in
    let p = c.first-bad.ensures (bad_path a.is_event a.self.now) (λ it r p. search rules) in
    let m = c.first-long.ensures (long_of a.is_event) (λ it r p. search rules) in
    long_told _ _ _ _ c.kinds_refusal-strange.ensures c.if-strange-ne0.false (omega arith) _ o c.if-outside-ne0.false _ p c.if-bad-ne0.false _ m c.if-long-ne0.true

pub returns : goal.returns
returns c =
    let a = c.args in
    let o = c.first-outside.ensures (outside_of a.is_event a.self.now) (λ it r p. search rules) in
    let p = c.first-bad.ensures (bad_path a.is_event a.self.now) (λ it r p. search rules) in
    let m = c.first-long.ensures (long_of a.is_event) (λ it r p. search rules) in
    let u = c.first.ensures (uneven_of a.is_event) (λ it r p. search rules) in
    uneven_told _ _ _ _ c.kinds_refusal-strange.ensures c.if-strange-ne0.false (omega arith) _ o c.if-outside-ne0.false _ p c.if-bad-ne0.false _ m c.if-long-ne0.false _ u
