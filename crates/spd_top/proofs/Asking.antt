-- What words ask for, by the command that is read of them.
use Rattle.std.proofs.Common.{◌≡◌, ◌≢◌, ◌∙◌, List, Option, Some, None, Bool, false, refl, sym, ap, subst}
use Rattle.std.specs.Prelude.{is_some, not, option_map, option_and_then}
use Rattle.std.specs.Option.{option_map_or}
use Rattle.spd_io.specs.Shelf.{ShelfState}
use Rattle.spd_command.specs.declared.command_name.CommandName.{CommandName}
use Rattle.spd_command.specs.declared.command.Command.{Command}
use Rattle.spd_command.specs.declared.settings.Settings.{Settings}
use Rattle.spd_command.specs.Asked.{Asked, elide, check, make, run, job, asked_of, name_of, name_in}
use Rattle.spd_command.specs.Seen.{asked}
use Rattle.spd_top.specs.BuiltIn.{shelf_in, shelf_for}
use Rattle.spd_top.specs.Told.{Bytes}
use Rattle.spd_top.specs.Requests.{Request, request_in, request_of, still_in, still_request_of, needs_workers, settings_of, settings_asked}

-- ---- whether they ask for workers

still_by_name : (asks : Option Asked) → is_some (option_and_then still_in asks) ≡ option_map_or (λ name. not (needs_workers name)) (option_map name_of asks) false
still_by_name None = refl
still_by_name (Some (elide program)) = refl
still_by_name (Some (check program)) = refl
still_by_name (Some (make rows seed)) = refl
still_by_name (Some (run program settings)) = refl
still_by_name (Some (job rows seed settings)) = refl

workers_by_name : (asks : Option Asked) → is_some (option_and_then settings_of asks) ≡ option_map_or needs_workers (option_map name_of asks) false
workers_by_name None = refl
workers_by_name (Some (elide program)) = refl
workers_by_name (Some (check program)) = refl
workers_by_name (Some (make rows seed)) = refl
workers_by_name (Some (run program settings)) = refl
workers_by_name (Some (job rows seed settings)) = refl

module _ (words : List Bytes) where
  pub still_named : (name : CommandName) → Some name ≡ name_in words → is_some (still_request_of words) ≡ not (needs_workers name)
  still_named name is = still_by_name (asked_of words) ∙ sym (ap (λ (n : Option CommandName). option_map_or (λ name. not (needs_workers name)) n false) is)

  pub still_none : None ≡ name_in words → false ≡ is_some (still_request_of words)
  still_none is = ap (λ (n : Option CommandName). option_map_or (λ name. not (needs_workers name)) n false) is ∙ sym (still_by_name (asked_of words))

  pub workers_named : (name : CommandName) → Some name ≡ name_in words → is_some (settings_asked words) ≡ needs_workers name
  workers_named name is = workers_by_name (asked_of words) ∙ sym (ap (λ (n : Option CommandName). option_map_or needs_workers n false) is)

  pub workers_none : None ≡ name_in words → false ≡ is_some (settings_asked words)
  workers_none is = ap (λ (n : Option CommandName). option_map_or needs_workers n false) is ∙ sym (workers_by_name (asked_of words))

pub none_asked : {A : Type 0} (o : Option A) → is_some o ≡ false → o ≡ None
none_asked None e = refl
none_asked (Some x) e = absurd cc

-- ---- what is asked for where no workers are

still_without : (asks : Option Asked) → option_and_then settings_of asks ≡ None → option_and_then still_in asks ≡ option_map request_in asks
still_without None none = refl
still_without (Some (elide program)) none = refl
still_without (Some (check program)) none = refl
still_without (Some (make rows seed)) none = refl
still_without (Some (run program settings)) none = absurd (let wrong : ◌≡◌ {A = Option Settings} (Some settings) None = none in cc)
still_without (Some (job rows seed settings)) none = absurd (let wrong : ◌≡◌ {A = Option Settings} (Some settings) None = none in cc)

shelf_without : (asks : Option Asked) (shelf : ShelfState) → option_and_then settings_of asks ≡ None → shelf ≡ shelf_in asks shelf
shelf_without None shelf none = refl
shelf_without (Some (elide program)) shelf none = refl
shelf_without (Some (check program)) shelf none = refl
shelf_without (Some (make rows seed)) shelf none = refl
shelf_without (Some (run program settings)) shelf none = refl
shelf_without (Some (job rows seed settings)) shelf none = absurd (let wrong : ◌≡◌ {A = Option Settings} (Some settings) None = none in cc)

module _ (words : List Bytes) (none : settings_asked words ≡ None) where
  -- The request is the same, and its files are the shelf's.
  pub request_still : still_request_of words ≡ request_of words
  request_still = still_without (asked_of words) none

  pub shelf_still : (shelf : ShelfState) → shelf ≡ shelf_for words shelf
  shelf_still shelf = shelf_without (asked_of words) shelf none

  pub still_answers : (P : Option Request → ShelfState → ShelfState → Type 0) (shelf shelf' : ShelfState) → P (still_request_of words) shelf shelf'
      → P (request_of words) (shelf_for words shelf) (shelf_for words shelf')
  still_answers P shelf shelf' h =
      subst (λ (z : ShelfState). P (request_of words) (shelf_for words shelf) z) (shelf_still shelf')
      (subst (λ (z : ShelfState). P (request_of words) z shelf') (shelf_still shelf) (subst (λ (r : Option Request). P r shelf shelf') request_still h))

-- ---- a command that was read

pub asked_is : (words : List Bytes) (read is : Command) → Some (asked read) ≡ asked_of words → read ≡ is → Some (asked is) ≡ asked_of words
asked_is words read is same e = sym (ap (λ (command : Command). Some (asked command)) e) ∙ same

pub one_settings : (words : List Bytes) (read : Asked) (a b : Settings) → Some read ≡ asked_of words → settings_of read ≡ Some a → settings_asked words ≡ Some b → a ≡ b
one_settings words read a b is has asks =
    let same : ◌≡◌ {A = Option Settings} (Some a) (Some b) = sym has ∙ ap (option_and_then settings_of) is ∙ asks in cc
