-- What a sum says of a promise.
use Rattle.std.specs.Prelude.{◌≡◌, ◌+◌, ◌≤◌, min, Bool}
use Rattle.spd_words.specs.Gift.{join}
use Rattle.spd_words.specs.Meaning.{Promise}
use Rattle.spd_words.specs.declared.tally.Tally.{Tally}
use Rattle.spd_script.specs.declared.steps.Steps.{Steps}
use Rattle.spd_script.specs.Steps.{promise, with_async, with_finish, steps_size}
use Rattle.spd_script.specs.declared.sum.Sum.{Sum}

abbrev pub promise_of_sum : Sum → Promise
promise_of_sum sum = record { gift = sum.tally.gift; fault = sum.tally.fault; moves = sum.moves }

-- Together it is an async that gives this, and what is behind it.
abbrev pub IsBeside : Sum → Sum → Sum → Type 0
IsBeside child rest sum =
    promise_of_sum sum ≡ with_async rest.tally.kind (promise_of_sum child) (promise_of_sum rest)

-- Together it is a finish that has this, and what is behind it.
abbrev pub IsBehind : Sum → Bool → Sum → Sum → Type 0
IsBehind child catches rest sum =
    promise_of_sum sum ≡ with_finish rest.tally.kind (promise_of_sum child) catches (promise_of_sum rest)

-- These steps give what the tally has, and what the rest gives.
pub record StandsBefore (tally : Tally) (rest steps : Steps) : Type 0 where
  pub gift : (promise tally.kind steps).gift ≡ join tally.kind tally.gift (promise tally.kind rest).gift
  pub fault : (promise tally.kind steps).fault ≡ min tally.fault (promise tally.kind rest).fault
  pub moves : (promise tally.kind steps).moves ≡ (promise tally.kind rest).moves
  pub size : steps_size steps ≤ steps_size rest + 2
