-- `vectors_fields::numbers` meets its contract: what is written and the numbers still to come are all for which there is room.
use Rattle.std.specs.Prelude.{ℕ, ◌≡◌, ◌<◌, List, [], ◌∷◌, false, length, eqb}
use Rattle.std.proofs.Common.{sym, arith}
use borrow.Author.Tests.{eqb-true}
use Rattle.vectors_fields.specs.NumbersLoops.{read_none, read_more, read_empty, read_last}
use Rattle.vectors_fields.proofs.numbers.Goals as goal

-- a field that is not empty
not_empty : (s : List ℕ) → false ≡ eqb (length s) 0 → 0 < length s
not_empty [] h = let z : ◌≡◌ {A = ℕ} 0 1 = cc in absurd (omega arith)
not_empty (b ∷ s) h = omega arith

pub returns-then-is_empty-clause-wrote : goal.returns-then-is_empty-clause-wrote
returns-then-is_empty-clause-wrote c = let s = c.args in read_empty s.hexadecimal s.field.now s.list.now (eqb-true (length s.field.now) 0 (sym c.if-is_empty.ensures))

pub loop-b-init : goal.loop-b-init
loop-b-init c =
    let s = c.args in
    let some = not_empty s.field.now c.if-is_empty.ensures in
    (omega arith, read_none s.hexadecimal s.field.now s.list.now (omega arith))

pub loop-b-preserved : goal.loop-b-preserved
loop-b-preserved c =
    let l = c.loop-b in
    let s = c.args in
    let push = c.push-n in
    let h = s.hexadecimal in (
      omega arith,
      rw c.longer-v.ensures
          (read_more h s.field.now s.list.now l.list push.new.list l.b-index l.n l.v push.result (omega arith) l.invariant.1
          push.ensures.stored),
    )

pub returns-clause-wrote : goal.returns-clause-wrote
returns-clause-wrote c =
    let l = c.loop-b in
    let s = c.args in
    let push = c.push in
    read_last s.hexadecimal s.field.now s.list.now l.list push.new.list l.b-index l.n l.v push.result c.loop-b-test.false l.invariant.1 push.ensures.stored
