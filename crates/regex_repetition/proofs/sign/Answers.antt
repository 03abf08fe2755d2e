-- `regex_repetition::sign` meets its contract.
use Rattle.std.proofs.Common.{sym, ◌∙◌}
use Rattle.text.proofs.TextLaws.{byte_is}
use Rattle.regex_repetition.specs.SignLaws.{sign_star, sign_plus, sign_optional, sign_braces}
use Rattle.regex_repetition.proofs.sign.Goals as goal

pub returns-in-42 : goal.returns-in-42
returns-in-42 c =
    let e = sym c.peek.ensures ∙ c.in-42.is in
    sign_star c.args.text.now c.args.at (byte_is c.args.text.now c.args.at 41 e) e

pub returns-in-43 : goal.returns-in-43
returns-in-43 c =
    let e = sym c.peek.ensures ∙ c.in-43.is in
    sign_plus c.args.text.now c.args.at (byte_is c.args.text.now c.args.at 42 e) e

pub returns-in-63 : goal.returns-in-63
returns-in-63 c =
    let e = sym c.peek.ensures ∙ c.in-63.is in
    sign_optional c.args.text.now c.args.at (byte_is c.args.text.now c.args.at 62 e) e

pub returns-in-123 : goal.returns-in-123
returns-in-123 c =
    let e = sym c.peek.ensures ∙ c.in-123.is in
    c.braces.ensures ∙ sign_braces c.args.text.now c.args.at (byte_is c.args.text.now c.args.at 122 e) e
