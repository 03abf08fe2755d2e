-- `sheet_path::put_labels` meets its contract: nothing, or the first label and the others after it.
use Rattle.std.proofs.Common.{◌+◌, [], ◌∷◌, ◌++◌, get_or, take, drop, refl, arith}
use Rattle.lists.proofs.FillingLoops.{filling_from, filling_stored, filling_room, filling_stored_all}
use Rattle.sheet_decimal.specs.Numerals.{decimal}
use Rattle.sheet_decimal.specs.PiecesLaws.{front_room, back_room, both_stored}
use Rattle.sheet_path.specs.Labels.{following, spaced}
use Rattle.sheet_path.specs.Loops.{following_here, following_end, spaced_none, spaced_parts}
use Rattle.sheet_path.proofs.put_labels.Goals as goal

pub returns-in_default-clause-stored : goal.returns-in_default-clause-stored
returns-in_default-clause-stored c = rw (spaced_none c.args.path.now c.in_default.ensures.cases) (record { next = omega arith; memory = refl })

pub put_decimal-requires : goal.put_decimal-requires
put_decimal-requires c =
    let o = c.args.out.now in
    let q = c.in-Some.others.now in
    let x = c.in-Some.field-0-0.now in
    let p = c.args.path.now in
    rw c.from.ensures (front_room (spaced p) (decimal x) (following q) o.memory.now o.len (spaced_parts p q x c.in-Some.ensures.cases.0) c.requires)

pub loop-x-init : goal.loop-x-init
loop-x-init c =
    let o = c.args.out.now in
    let q = c.in-Some.others.now in
    let x = c.in-Some.field-0-0.now in
    let p = c.args.path.now in
    let d = c.put_decimal.new.self in
    let s = rw c.from.ensures at c.put_decimal.ensures.stored in
    record {
      same_memory = refl;
      filling =
          filling_from (following q) d.memory.now d.len
          (back_room (spaced p) (decimal x) (following q) o.memory.now o.len (spaced_parts p q x c.in-Some.ensures.cases.0) c.requires d.memory.now d.len s);
    }

pub put_bytes-requires : goal.put_bytes-requires
put_bytes-requires c =
    let q = c.in-Some.others.now in
    let d = c.put_decimal.new.self in
    let l = c.loop-x in
    let room =
    filling_room (take d.len d.memory.now ++ following q) d.memory.now (32 ∷ []) l.out.memory.now (decimal (get_or q l.x-index 0) ++ following (drop (l.x-index + 1) q)) l.out.len
    (rw (following_here q l.x-index (omega arith)) at l.invariant.filling) in
    omega arith

pub put_decimal-requires-in-loop-x : goal.put_decimal-requires-in-loop-x
put_decimal-requires-in-loop-x c =
    let q = c.in-Some.others.now in
    let d = c.put_decimal.new.self in
    let l = c.loop-x in
    let b = c.put_bytes.new.self in
    let y = decimal (get_or q l.x-index 0) in
    let rest = following (drop (l.x-index + 1) q) in
    let whole = take d.len d.memory.now ++ following q in
    let f =
    filling_stored whole d.memory.now (32 ∷ []) l.out.memory.now b.memory.now (y ++ rest) l.out.len b.len
    (rw (following_here q l.x-index (omega arith)) at l.invariant.filling) c.put_bytes.ensures.stored in
    rw c.from-in-loop-x.ensures (filling_room whole d.memory.now y b.memory.now rest b.len f)

pub loop-x-preserved : goal.loop-x-preserved
loop-x-preserved c =
    let q = c.in-Some.others.now in
    let d = c.put_decimal.new.self in
    let l = c.loop-x in
    let b = c.put_bytes.new.self in
    let n = c.put_decimal-in-loop-x.new.self in
    let y = decimal (get_or q l.x-index 0) in
    let rest = following (drop (l.x-index + 1) q) in
    let whole = take d.len d.memory.now ++ following q in
    let f =
    filling_stored whole d.memory.now (32 ∷ []) l.out.memory.now b.memory.now (y ++ rest) l.out.len b.len
    (rw (following_here q l.x-index (omega arith)) at l.invariant.filling) c.put_bytes.ensures.stored in
    record {
      same_memory = cc;
      filling =
          filling_stored whole d.memory.now y b.memory.now n.memory.now rest b.len n.len f
          (rw c.from-in-loop-x.ensures at c.put_decimal-in-loop-x.ensures.stored);
    }

pub returns-clause-stored : goal.returns-clause-stored
returns-clause-stored c =
    let o = c.args.out.now in
    let q = c.in-Some.others.now in
    let x = c.in-Some.field-0-0.now in
    let p = c.args.path.now in
    let d = c.put_decimal.new.self in
    let l = c.loop-x in
    let s = rw c.from.ensures at c.put_decimal.ensures.stored in
    let e = spaced_parts p q x c.in-Some.ensures.cases.0 in
    both_stored (spaced p) (decimal x) (following q) o.memory.now o.len e c.requires d.memory.now d.len s l.out.memory.now l.out.len
    (filling_stored_all (following q) d.memory.now d.len
    (back_room (spaced p) (decimal x) (following q) o.memory.now o.len e c.requires d.memory.now d.len s) l.out.memory.now l.out.len
    (rw (following_end q l.x-index (omega arith)) at l.invariant.filling))
