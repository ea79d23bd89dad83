-- So many of the words before the index are that of the option.
use Rattle.std.proofs.Common.{◌≡◌, ◌+◌, map, drop, count_by}
use Rattle.std.specs.String.{string_bytes}
use Rattle.spd_command.specs.Table.{is_option_word}
use Rattle.spd_command.proofs.lawful.count.Given as goal

abbrev pub invariant-loop-word : goal.invariant-loop-word
invariant-loop-word l = l.count + count_by (is_option_word l.option) (map string_bytes (drop l.word-index l.words)) ≡ count_by (is_option_word l.option) (map string_bytes l.words)
