-- A word that names a command is a command line with lawful words behind it, and with no others.
use Rattle.std.proofs.Common.{◌≡◌, ◌∙◌, ◌-◌, ◌≤◌, ℕ, true, false, refl, sym, ap, arith, List, [], ◌∷◌, length, map, take, drop, get_or, Option, Some, None, is_some, option_map, option_and_then, true≢false}
use Rattle.spd_command.specs.declared.command_name.CommandName.{CommandName}
use Rattle.spd_command.specs.declared.command_name.CommandName.TheVariants.{Elide, Check, Make, Run, Job}
use Rattle.spd_command.specs.Table.{command_called}
use Rattle.spd_command.specs.Lines.{Passed, arguments_in}
use Rattle.spd_command.specs.Asked.{asked_of, asked_by, name_of, name_in, IsLine}
use Rattle.spd_command.proofs.Testing.{behind_first}

none_is : {X : Type 0} (given : Option X) → is_some given ≡ false → given ≡ None
none_is None e = refl
none_is (Some x) e = absurd (true≢false e)

-- of a slice that is taken apart
pub no_line : {X : Type 0} (bytes : X → List ℕ) (words : List X) (d : X) (command : CommandName) → 1 ≤ length words
    → command_called (bytes (get_or words 0 d)) ≡ Some command → is_some (arguments_in command (map bytes (take (length words - 1) (drop 1 words)))) ≡ false
    → asked_of (map bytes words) ≡ None
no_line bytes [] d command some called refused = absurd (omega (arith, some))
no_line bytes (word ∷ words) d command some called refused =
    ap (option_and_then (λ name. option_map (asked_by name) (arguments_in name (map bytes words)))) called
    ∙ ap (option_map (asked_by command)) (none_is _ (ap (λ z. is_some (arguments_in command (map bytes z))) (sym (behind_first word words)) ∙ refused))

own_name : (command : CommandName) (all : List Passed) → name_of (asked_by command all) ≡ command
own_name Elide all = refl
own_name Check all = refl
own_name Make all = refl
own_name Run all = refl
own_name Job all = refl

pub line_name : (words : List (List ℕ)) (command : CommandName) (behind : List (List ℕ)) → IsLine words command behind → name_in words ≡ Some command
line_name words command behind line = ap (option_map name_of) line.asks ∙ go (arguments_in command behind) line.lawful
  where
    go : (given : Option (List Passed)) → is_some given ≡ true → option_map name_of (option_map (asked_by command) given) ≡ Some command
    go None e = absurd (true≢false (sym e))
    go (Some all) e = ap Some (own_name command all)
