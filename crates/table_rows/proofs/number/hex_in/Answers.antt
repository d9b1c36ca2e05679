use Rattle.table_rows.proofs.Words.{◌≡◌, ◌∙◌, true, length, sym, arith, nat_le, le-leb, list_all, hex_in, is_hex_digit}
use Rattle.table_rows.proofs.Numerals.{hex-utf8, hex-parsed}
use Rattle.table_rows.proofs.number.hex_in.Goals as goal

pub utf8_text-requires : goal.utf8_text-requires
utf8_text-requires c = hex-utf8 c.args.bytes.now (sym c.are_hex_digits.ensures ∙ c.if-not-are_hex_digits.false)

pub returns : goal.returns
unfolding hex_in
returns c =
    let t = c.args.bytes.now in
    let digits : list_all is_hex_digit t ≡ true = sym c.are_hex_digits.ensures ∙ c.if-not-are_hex_digits.false in
    let few : nat_le c.args.few (length t) ≡ true = le-leb _ _ c.if-bytes-few.false in
    let many : nat_le (length t) c.args.many ≡ true = le-leb _ _ c.if-many-bytes.false in
    rw (digits, few, many) (c.ok.ensures.value ∙ hex-parsed t c.from_str_radix.result digits (omega arith) (omega arith) (rw c.utf8_text.ensures at c.from_str_radix.ensures.value))
