-- A body that means nothing: it stands where none was picked.
use Rattle.std.specs.Prelude.{None, true}
use Rattle.spd_words.specs.Meaning.{Meaning, empty}
use Rattle.spd_words.specs.declared.finish_kind.FinishKind.TheVariants.{Plain}

abbrev pub nobody : Meaning
nobody = record { kind = Plain; wild = true; awaited = None; promise = empty Plain }
