-- `alternation`, `branch`, `piece` and `group` meet their contracts, together, where the functions that they call meet theirs below the measure.
use mathlib.Core.Path.{sym, ap, ◌∙◌}
use native.Mathlib.Omega.{arith}
use Rattle.regex_tree.specs.Parse.{m_branch, m_piece, m_group}
use Rattle.std.proofs.lemmas.Result.{err_from_is_err_and}
use Rattle.text.proofs.TextLaws.{byte_is}
use Rattle.regex_count.specs.Parts.{add, repeated, closed}
use Rattle.regex_parse.specs.PartsLaws.{part_found}
use Rattle.regex_parse.specs.CycleLaws.{alternation_refused, alternation_alone, alternation_more}
use Rattle.regex_parse.specs.CycleLaws.{branch_refused, branch_last, branch_more}
use Rattle.regex_parse.specs.CycleLaws.{piece_refused, piece_plain, piece_repeated}
use Rattle.regex_parse.specs.CycleLaws.{group_set, group_deep, group_closed}
use Rattle.regex_parse.proofs.+alternation_branch_group_piece.Goals as goal

-- `alternation`: the branch that is parsed first is f
pub alternation-returns-then-peek-ne124 : goal.alternation-returns-then-peek-ne124
alternation-returns-then-peek-ne124 t c =
    let a = c.args in
    let f = part_found a.alphabet.now a.text.now m_branch a.room a.at c.in_ok-first.first.end c.in_ok-first.first.letters c.in_ok-first.ensures in
    alternation_alone f (λ z. c.if-peek-ne124.true (c.peek.ensures ∙ z))

pub alternation-alternation-requires : goal.alternation-alternation-requires
alternation-alternation-requires t c =
    let a = c.args in
    let f = part_found a.alphabet.now a.text.now m_branch a.room a.at c.in_ok-first.first.end c.in_ok-first.first.letters c.in_ok-first.ensures in
    let h = f.ahead in
    let l = byte_is a.text.now c.in_ok-first.first.end 123 (sym c.peek.ensures ∙ c.if-peek-ne124.false) in
    omega arith

pub alternation-returns-in_err-first : goal.alternation-returns-in_err-first
alternation-returns-in_err-first t c =
    let a = c.args in
    let p = err_from_is_err_and c.from_residual.result c.from_residual.ensures.1 in
    rw (p.1, p.2) (alternation_refused a.alphabet.now a.text.now a.room a.at _ c.in_err-first.ensures)

pub alternation-returns : goal.alternation-returns
alternation-returns t c =
    let a = c.args in
    let f = part_found a.alphabet.now a.text.now m_branch a.room a.at c.in_ok-first.first.end c.in_ok-first.first.letters c.in_ok-first.ensures in
    c.added.ensures ∙ ap (add c.in_ok-first.first.letters) c.alternation.ensures ∙ alternation_more f (sym c.peek.ensures ∙ c.if-peek-ne124.false)

-- `branch`: the piece that is parsed first is f
pub branch-returns-then-is_end : goal.branch-returns-then-is_end
branch-returns-then-is_end t c =
    let a = c.args in
    let f = part_found a.alphabet.now a.text.now m_piece a.room a.at c.in_ok-first.first.end c.in_ok-first.first.letters c.in_ok-first.ensures in
    branch_last f (sym c.is_end.ensures ∙ c.if-is_end.true)

pub branch-branch-alphabet-requires : goal.branch-branch-alphabet-requires
branch-branch-alphabet-requires t c =
    let a = c.args in
    let f = part_found a.alphabet.now a.text.now m_piece a.room a.at c.in_ok-first.first.end c.in_ok-first.first.letters c.in_ok-first.ensures in
    let h = f.ahead in
    let w = f.within in
    omega arith

pub branch-returns-in_err-first : goal.branch-returns-in_err-first
branch-returns-in_err-first t c =
    let a = c.args in
    let p = err_from_is_err_and c.from_residual.result c.from_residual.ensures.1 in
    rw (p.1, p.2) (branch_refused a.alphabet.now a.text.now a.room a.at _ c.in_err-first.ensures)

pub branch-returns : goal.branch-returns
branch-returns t c =
    let a = c.args in
    let f = part_found a.alphabet.now a.text.now m_piece a.room a.at c.in_ok-first.first.end c.in_ok-first.first.letters c.in_ok-first.ensures in
    c.added.ensures ∙ ap (add c.in_ok-first.first.letters) c.branch-alphabet.ensures ∙ branch_more f (sym c.is_end.ensures ∙ c.if-is_end.false)

-- `group`
pub group-returns-then-peek-ne40 : goal.group-returns-then-peek-ne40
group-returns-then-peek-ne40 t c =
    let a = c.args in
    c.set.ensures ∙ group_set a.alphabet.now a.text.now a.room a.at (λ z. c.if-peek-ne40.true (c.peek.ensures ∙ z))

pub group-returns-then-room-eq0 : goal.group-returns-then-room-eq0
group-returns-then-room-eq0 t c =
    let a = c.args in
    group_deep a.alphabet.now a.text.now a.room a.at (sym c.peek.ensures ∙ c.if-peek-ne40.false) c.if-room-eq0.true

pub group-returns : goal.group-returns
group-returns t c =
    let a = c.args in
    c.closed.ensures ∙ ap (closed a.text.now) c.alternation.ensures
    ∙ group_closed a.alphabet.now a.text.now a.room a.at (sym c.peek.ensures ∙ c.if-peek-ne40.false) c.if-room-eq0.false

-- `piece`: the group that is parsed first is f
pub piece-returns-then-is_repeated : goal.piece-returns-then-is_repeated
piece-returns-then-is_repeated t c =
    let a = c.args in
    let f = part_found a.alphabet.now a.text.now m_group a.room a.at c.in_ok-inner.inner.end c.in_ok-inner.inner.letters c.in_ok-inner.ensures in
    c.repeated.ensures ∙ ap (repeated c.in_ok-inner.inner.letters) c.repetition.ensures ∙ piece_repeated f (sym c.is_repeated.ensures ∙ c.if-is_repeated.true)

pub piece-returns-in_err-inner : goal.piece-returns-in_err-inner
piece-returns-in_err-inner t c =
    let a = c.args in
    let p = err_from_is_err_and c.from_residual.result c.from_residual.ensures.1 in
    rw (p.1, p.2) (piece_refused a.alphabet.now a.text.now a.room a.at _ c.in_err-inner.ensures)

pub piece-returns : goal.piece-returns
piece-returns t c =
    let a = c.args in
    let f = part_found a.alphabet.now a.text.now m_group a.room a.at c.in_ok-inner.inner.end c.in_ok-inner.inner.letters c.in_ok-inner.ensures in
    piece_plain f (sym c.is_repeated.ensures ∙ c.if-is_repeated.false)
