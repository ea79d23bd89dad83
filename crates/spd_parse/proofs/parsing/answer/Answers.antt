use Rattle.std.proofs.Common.{arith}
use Rattle.std.proofs.lemmas.List.{length-map}
use Rattle.spd_syntax.specs.Tokens.{seen}
use Rattle.spd_syntax.specs.Symbols.{all_seen}
use Rattle.spd_parse.proofs.Answered.{whole_of}
use Rattle.spd_parse.proofs.parsing.answer.Goals as goal

pub read_all-requires : goal.read_all-requires
read_all-requires c = record {
  kept = whole_of (all_seen c.args.text.now c.args.tokens.now) (omega (
    arith,
    c.first_over-place.ensures.place c.args.text.now,
    c.if-place-tokens.false,
    length-map c.args.tokens.now (seen c.args.text.now),
  ));
}
