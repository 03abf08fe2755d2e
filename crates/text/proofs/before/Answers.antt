-- `text::before` meets its contract: `until` counts the bytes before the first that is the sign, as `position` does.
use Rattle.std.proofs.Common.{rules, ◌≡◌, ◌≢◌, ◌∙◌, sym}
use Rattle.std.proofs.lemmas.Iterator.{YieldsList-from_slice, IsFirst-from_position, index_from_first}
use borrow.Author.Tests.{tests}
use Rattle.text.specs.Places.{until}
use Rattle.text.proofs.TextLaws.{until_hit, until_miss, until_nil}
use Rattle.text.proofs.before.Goals as goal

pub returns : goal.returns
returns c =
    let s = c.args.sign in
    c.unwrap_or.ensures ∙ sym (index_from_first (until s) (λ b. b ≡ s) (λ b. b ≢ s) (until_nil s) (until_hit s) (until_miss s) c.args.text.now c.position.result
    (IsFirst-from_position _ _ _ (λ b. b ≡ s) (λ b. b ≢ s) c.position.ensures.ran (YieldsList-from_slice c.args.text.now cc)
    (λ x q k. search (rules, tests)) (λ x q k. search (rules, tests))))
