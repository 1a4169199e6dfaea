-- `fields::header::MHDR::to_byte` meets its contract. Assumes nothing.
use Rattle.fields.specs.Header.{header_byte}
use Rattle.fields.proofs.Laws.Header.{code_lt}
use native.Mathlib.Omega.{arith}
use borrow.Author.Tests.{lt-ltb, le-ltb}
use Rattle.fields.proofs.header.MHDR.to_byte.Goals as goal

pub returns-then-hops-lt-LEAST : goal.returns-then-hops-lt-LEAST
unfolding header_byte
returns-then-hops-lt-LEAST c = simp (lt-ltb c.args.self.hop_count 1 (omega arith))

pub returns-then-hops-gt-MOST : goal.returns-then-hops-gt-MOST
unfolding header_byte
returns-then-hops-gt-MOST c = let h = c.args.self.hop_count in simp (le-ltb h 1 (omega arith), lt-ltb 8 h (omega arith))

pub to_byte-requires : goal.to_byte-requires
to_byte-requires c = tt

pub overflow_mul-result : goal.overflow_mul-result
overflow_mul-result c = omega (arith, code_lt c.args.self.payload_type)

pub overflow_add-result : goal.overflow_add-result
overflow_add-result c = omega (arith, code_lt c.args.self.payload_type)

pub overflow_add-result-2 : goal.overflow_add-result-2
overflow_add-result-2 c = omega (arith, code_lt c.args.self.payload_type)

pub returns : goal.returns
unfolding header_byte
returns c = let h = c.args.self.hop_count in simp (le-ltb h 1 (omega arith), le-ltb 8 h (omega arith)) (cc)
