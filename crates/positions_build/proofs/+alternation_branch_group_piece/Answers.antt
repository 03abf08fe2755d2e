-- `alternation`, `branch`, `piece` and `group` meet their contracts, together, where the functions that they call meet theirs below the measure.
use mathlib.Core.Path.{◌≡◌, refl, sym, ◌∙◌}
use native.Mathlib.Omega.{arith}
use lib.ListN.{get_or}
use Rattle.regex_tree.specs.Parse.{m_branch, m_piece}
use Rattle.text.proofs.TextLaws.{byte_is}
use Rattle.positions_build.specs.MadeLaws.{parsed_part, branch_found, piece_found}
use Rattle.positions_build.specs.BranchLaws.{branch_room, alternation_found, alternation_room, alternation_returns_branch, alternation_returns_choice}
use Rattle.positions_build.specs.BranchLaws.{first_copy, piece_room, next_found, next_room, branch_returns_piece, branch_returns_joint}
use Rattle.positions_build.specs.PiecesLaws.{group_found}
use Rattle.positions_build.specs.PieceLaws.{few_copies, group_room, count_found, more_left, left_room, piece_returns_last, piece_returns_more}
use Rattle.positions_build.specs.PieceLaws.{set_found, set_room, deep, content_found, content_room, group_returns_set, group_returns_content}
use Rattle.positions_build.proofs.+alternation_branch_group_piece.Goals as goal

-- `alternation`: b is the branch that is built first
pub alternation-branch-a-requires : goal.alternation-branch-a-requires
alternation-branch-a-requires t c =
    let s = c.args in
    let A = s.source.now.alphabet.now in
    let text = s.source.now.text.now in
    let p = c.requires.part_at in
    (omega arith, (branch_found A text s.room s.at p, branch_room A text s.room s.at p c.requires.room))

pub alternation-returns-then-peek-ne124 : goal.alternation-returns-then-peek-ne124
alternation-returns-then-peek-ne124 t c =
    let s = c.args in
    alternation_returns_branch s.source.now.alphabet.now s.source.now.text.now s.room s.at c.requires.part_at c.requires.room c.branch-a.ensures
    (λ z. c.if-peek-ne124.true (c.peek.ensures ∙ z))

pub alternation-alternation-b-requires : goal.alternation-alternation-b-requires
alternation-alternation-b-requires t c =
    let s = c.args in
    let A = s.source.now.alphabet.now in
    let text = s.source.now.text.now in
    let d = s.room in
    let at = s.at in
    let p = c.requires.part_at in
    let o = c.requires.room in
    let b = c.branch-a in
    let e = b.result.end in
    let k : get_or text e 0 ≡ 124 = sym c.peek.ensures ∙ c.if-peek-ne124.false in
    let l = byte_is text e 123 k in
    let r = (parsed_part A text m_branch d at (branch_found A text d at p)).ahead in
    let q = b.ensures.ends in
    (omega arith, (alternation_found A text d at p o b.ensures k, alternation_room A text d at p o b.ensures k))

pub alternation-returns : goal.alternation-returns
alternation-returns t c =
    let s = c.args in
    let b = c.branch-a in
    let k : get_or s.source.now.text.now b.result.end 0 ≡ 124 = sym c.peek.ensures ∙ c.if-peek-ne124.false in
    alternation_returns_choice s.source.now.alphabet.now s.source.now.text.now s.room s.at c.requires.part_at c.requires.room b.ensures k c.alternation-b.ensures c.or.ensures

-- `branch`: b is the piece that is built first
pub branch-piece-a-requires : goal.branch-piece-a-requires
branch-piece-a-requires t c =
    let s = c.args in
    let A = s.source.now.alphabet.now in
    let text = s.source.now.text.now in
    let p = c.requires.part_at in (
      omega arith,
      (piece_found A text s.room s.at p, (first_copy A text s.room s.at p, piece_room A text s.room s.at p c.requires.room)),
    )

pub branch-returns-then-is_end : goal.branch-returns-then-is_end
branch-returns-then-is_end t c =
    let s = c.args in
    branch_returns_piece s.source.now.alphabet.now s.source.now.text.now s.room s.at c.requires.part_at c.requires.room c.piece-a.ensures (sym c.is_end.ensures ∙ c.if-is_end.true)

pub branch-branch-b-requires : goal.branch-branch-b-requires
branch-branch-b-requires t c =
    let s = c.args in
    let A = s.source.now.alphabet.now in
    let text = s.source.now.text.now in
    let d = s.room in
    let at = s.at in
    let p = c.requires.part_at in
    let o = c.requires.room in
    let b = c.piece-a in
    let k = sym c.is_end.ensures ∙ c.if-is_end.false in
    let r = parsed_part A text m_piece d at (piece_found A text d at p) in
    let l = r.ahead in
    let w = r.within in
    let q = b.ensures.ends in
    (omega arith, (next_found A text d at p o b.ensures k, next_room A text d at p o b.ensures k))

pub branch-returns : goal.branch-returns
branch-returns t c =
    let s = c.args in
    let k = sym c.is_end.ensures ∙ c.if-is_end.false in
    branch_returns_joint s.source.now.alphabet.now s.source.now.text.now s.room s.at c.requires.part_at c.requires.room c.piece-a.ensures k c.branch-b.ensures c.then.ensures

-- `group`
pub group-set-requires-clause-set_at : goal.group-set-requires-clause-set_at
group-set-requires-clause-set_at t c =
    let s = c.args in
    set_found s.source.now.alphabet.now s.source.now.text.now s.room s.at c.requires.part_at c.requires.room (λ z. c.if-peek-ne40.true (c.peek.ensures ∙ z))

pub group-set-requires-clause-set_room : goal.group-set-requires-clause-set_room
group-set-requires-clause-set_room t c =
    let s = c.args in
    set_room s.source.now.alphabet.now s.source.now.text.now s.room s.at c.requires.part_at c.requires.room (λ z. c.if-peek-ne40.true (c.peek.ensures ∙ z))

pub group-returns-then-peek-ne40 : goal.group-returns-then-peek-ne40
group-returns-then-peek-ne40 t c =
    let s = c.args in
    group_returns_set s.source.now.alphabet.now s.source.now.text.now s.room s.at c.requires.part_at c.requires.room (λ z. c.if-peek-ne40.true (c.peek.ensures ∙ z)) c.set.ensures

pub group-overflow_sub-room : goal.group-overflow_sub-room
group-overflow_sub-room t c =
    let s = c.args in
    let k : get_or s.source.now.text.now s.at 0 ≡ 40 = sym c.peek.ensures ∙ c.if-peek-ne40.false in
    deep s.source.now.alphabet.now s.source.now.text.now s.room s.at c.requires.part_at c.requires.room k

pub group-alternation-a-requires : goal.group-alternation-a-requires
group-alternation-a-requires t c =
    let s = c.args in
    let A = s.source.now.alphabet.now in
    let text = s.source.now.text.now in
    let d = s.room in
    let at = s.at in
    let p = c.requires.part_at in
    let o = c.requires.room in
    let k : get_or text at 0 ≡ 40 = sym c.peek.ensures ∙ c.if-peek-ne40.false in
    let l = byte_is text at 39 k in
    (omega arith, (content_found A text d at p o k, content_room A text d at p o k))

pub group-returns : goal.group-returns
group-returns t c =
    let s = c.args in
    let k : get_or s.source.now.text.now s.at 0 ≡ 40 = sym c.peek.ensures ∙ c.if-peek-ne40.false in
    group_returns_content s.source.now.alphabet.now s.source.now.text.now s.room s.at c.requires.part_at c.requires.room k c.alternation-a.ensures
    (record { ends = refl; counts = refl; nullable = refl; first = refl; last = refl })

-- `piece`: g is the group that is built first
pub piece-group-a-requires : goal.piece-group-a-requires
piece-group-a-requires t c =
    let s = c.args in
    let A = s.source.now.alphabet.now in
    let text = s.source.now.text.now in
    let d = s.room in
    let at = s.at in
    let p = c.requires.part_at in
    let i = c.requires.copies_bound in
    let l = few_copies A text d at p s.copies in
    (omega arith, (group_found A text d at p, group_room A text d at p s.copies i c.requires.room))

pub piece-copies_at-c-requires : goal.piece-copies_at-c-requires
piece-copies_at-c-requires t c =
    let s = c.args in
    count_found s.source.now.alphabet.now s.source.now.text.now s.room s.at c.requires.part_at s.copies c.requires.copies_bound c.requires.room c.group-a.ensures

pub piece-returns-then-copies-c : goal.piece-returns-then-copies-c
piece-returns-then-copies-c t c =
    let s = c.args in
    let n = c.copies_at-c in
    piece_returns_last s.source.now.alphabet.now s.source.now.text.now s.room s.at c.requires.part_at s.copies c.requires.copies_bound c.requires.room c.group-a.ensures n.result
    n.ensures c.if-copies-c.true c.again.ensures c.perhaps.ensures

pub piece-piece-b-requires : goal.piece-piece-b-requires
piece-piece-b-requires t c =
    let s = c.args in
    let A = s.source.now.alphabet.now in
    let text = s.source.now.text.now in
    let d = s.room in
    let at = s.at in
    let p = c.requires.part_at in
    let k = s.copies in
    let i = c.requires.copies_bound in
    let o = c.requires.room in
    let g = c.group-a in
    let n = c.copies_at-c in
    let l = few_copies A text d at p k in
    let j = c.if-copies-c.false in
    let m = more_left A text d at p k i o g.ensures n.result n.ensures j in
    (omega arith, (p, (m, left_room A text d at p k i o g.ensures n.result n.ensures j)))

pub piece-returns : goal.piece-returns
piece-returns t c =
    let s = c.args in
    let n = c.copies_at-c in
    piece_returns_more s.source.now.alphabet.now s.source.now.text.now s.room s.at c.requires.part_at s.copies c.requires.copies_bound c.requires.room c.group-a.ensures n.result
    n.ensures c.if-copies-c.false c.piece-b.ensures c.then.ensures c.perhaps-2.ensures
