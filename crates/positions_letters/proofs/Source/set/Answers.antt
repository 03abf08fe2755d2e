-- `positions_letters::Source::set` meets its contract.
use Rattle.positions.specs.Opened.{labels_of_set}
use Rattle.regex_set.specs.Answers.{set_at}
use Rattle.positions_letters.specs.LettersLaws.{set_builds}
use Rattle.positions_letters.proofs.Source.set.Goals as goal

pub returns : goal.returns
returns c =
    let a = c.args in
    let l = labels_of_set a.self.now.alphabet.now (set_at a.self.now.text.now a.at) in
    let w = c.write_labels-n in
    let b = c.after_set in
    λ f. set_builds a.letters w.result _ b.result l _ _ c.range-first.result f b.ensures w.ensures c.range-first.ensures
