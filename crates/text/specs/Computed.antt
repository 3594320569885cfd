-- Every definition of the text that stays shut, under one name: `unfolding text_computed` opens them all, for a row that is computed.
use Rattle.std.specs.Prelude.{ℕ}
use Rattle.text.specs.Digits.{decimal, digit}
use Rattle.text.specs.Fields.{kind_text, opening, address_text, byte_text, signals, ending, head_text, refusal_text}
use Rattle.text.specs.Text.{answer_line, printed}

unfoldable pub fields_computed : ℕ
unfolding decimal digit kind_text opening address_text byte_text signals ending head_text refusal_text
fields_computed = 0

unfoldable pub text_computed : ℕ
unfolding fields_computed answer_line printed
text_computed = 0
