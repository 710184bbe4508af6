use Rattle.std.proofs.Common.{sym, refl, ◌∙◌}
use Rattle.grammar.proofs.Spelled.{key_is, key_digit, signal_digit, no_signal, formed_digit, formed_is}
use Rattle.grammar.proofs.token.TokenFromRefSliceU8.from.Goals as goal

pub returns-then-ne : goal.returns-then-ne
returns-then-ne c =
    let w = c.args.word.now in
    let formed = formed_is _ refl refl 999999999 w _ _ c.read_numeral.ensures c.ne.ensures ∙ c.if-ne.true in
    let d = formed_digit w formed in
    (refl, (key_digit w d, (signal_digit w d, formed)))

pub returns-in-Some : goal.returns-in-Some
returns-in-Some c =
    let w = c.args.word.now in
    let formed = formed_is _ refl refl 999999999 w _ _ c.read_numeral.ensures c.ne.ensures ∙ c.if-ne.false in
    let k = sym (key_is w) ∙ sym c.read_keyword.ensures ∙ c.in-Some.is in
    (refl, (k, (no_signal w c.in-Some.keyword k, formed)))

pub returns-in-Some-read_signal : goal.returns-in-Some-read_signal
returns-in-Some-read_signal c =
    let w = c.args.word.now in
    let formed = formed_is _ refl refl 999999999 w _ _ c.read_numeral.ensures c.ne.ensures ∙ c.if-ne.false in
    (refl, (sym (key_is w) ∙ sym c.read_keyword.ensures ∙ c.in_default.is, (sym c.read_signal.ensures ∙ c.in-Some-read_signal.is, formed)))

pub returns-in_default-read_signal : goal.returns-in_default-read_signal
returns-in_default-read_signal c =
    let w = c.args.word.now in
    let formed = formed_is _ refl refl 999999999 w _ _ c.read_numeral.ensures c.ne.ensures ∙ c.if-ne.false in
    (refl, (sym (key_is w) ∙ sym c.read_keyword.ensures ∙ c.in_default.is, (sym c.read_signal.ensures ∙ c.in_default-read_signal.is, formed)))
