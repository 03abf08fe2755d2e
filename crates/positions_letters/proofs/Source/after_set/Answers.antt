-- `positions_letters::Source::after_set` meets its contract.
use Rattle.std.specs.Prelude.{ℕ, ◌≡◌, List, true, drop, Result}
use Rattle.std.specs.Result.{IsOk}
use Rattle.std.proofs.Common.{sym, ◌∙◌, refl, subst}
use Rattle.refusal.specs.declared.Refusal.{Refusal}
use Rattle.regex_tree.specs.Tree.{Set}
use Rattle.regex_tree.specs.Parsing.{Parsing, found, fault}
use Rattle.regex_tree.specs.Sets.{a_set}
use Rattle.regex_bracket.specs.Answers.{is_found, end_of}
use Rattle.positions_letters.specs.FoundLaws.{not_found}
use Rattle.positions_letters.specs.SetLaws.{end_is}
use Rattle.positions_letters.proofs.Source.after_set.Goals as goal

-- a set that was found is no refusal
end_ok : (text : List ℕ) (x : Parsing Set) → is_found x ≡ true → IsOk (end_of text x)
end_ok text (found a r) h = refl
end_ok text (fault n r) h = not_found h

pub unwrap-requires : goal.unwrap-requires
unwrap-requires c =
    let text = c.args.self.now.text.now in
    subst (λ (v : Result ℕ Refusal). IsOk v) (sym c.set_end.ensures) (end_ok text (a_set (drop c.args.at text)) c.requires)

pub returns : goal.returns
returns c =
    let text = c.args.self.now.text.now in
    end_is text c.unwrap.result (a_set (drop c.args.at text)) (sym c.unwrap.ensures ∙ c.set_end.ensures)
