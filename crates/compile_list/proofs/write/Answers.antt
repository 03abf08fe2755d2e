-- `compile_list::write` meets its contract: the arrays that were built and the rows of letters that follow tell the prefix tree, and are
-- written as its form.
use Rattle.std.proofs.Common.{subst, length}
use Rattle.refusal.specs.declared.Refusal.TheVariants.{Letters}
use Rattle.refusal.specs.Fills.{reported, Fills}
use Rattle.refusal.proofs.ReportLaws.{fills_refused}
use Rattle.wordlist.specs.Words.{words}
use Rattle.compile_list.specs.Call.{formed}
use Rattle.compile_list.proofs.WrittenLaws.{too_many, written_form}
use Rattle.compile_list.proofs.write.Goals as goal

pub returns-then-trie-gt127 : goal.returns-then-trie-gt127
returns-then-trie-gt127 c =
    let A = c.args.alphabet.now in
    let s = c.args.list.now in
    let m = c.args.form.now in
    let t = c.build-trie in
    fills_refused (formed A (length m) (words s)) Letters m (too_many A s c.requires.1 t.result t.ensures (length m) c.if-trie-gt127.true)

pub returns : goal.returns
returns c =
    let A = c.args.alphabet.now in
    let s = c.args.list.now in
    let m = c.args.form.now in
    let t = c.build-trie in
    let f = c.write_form in
    subst (λ v. Fills v (reported f.result) m f.new.form)
    (written_form A s c.requires.1 t.result t.ensures (length m) c.if-trie-gt127.false c.row_after-first.result c.rows_after.new.rows c.row_after-first.ensures
    c.rows_after.ensures) f.ensures
