-- What is promised, awaited and given to a make, as a view has it.
use Rattle.std.specs.Prelude.{◌-◌, Option, Some, None, cond, pos}
use Rattle.spd_words.specs.Gift.{no_fault}
use Rattle.spd_words.specs.Meaning.{Promise, Awaited, Meaning}
use Rattle.spd_state.specs.declared.promise.Owed.{Owed}
use Rattle.spd_state.specs.declared.promise.Expected.{Expected}
use Rattle.spd_state.specs.declared.promise.Whole.{Whole}

-- what is owed, as a promise
abbrev pub promised : Owed → Promise
promised o = record { gift = o.gift; fault = o.fault; moves = o.moves }

-- a promise, as a view owes it
abbrev pub owed_of : Promise → Owed
owed_of p = record { gift = p.gift; fault = p.fault; moves = p.moves }

-- what is expected, as it is awaited
abbrev pub awaited_of : Expected → Awaited
awaited_of x = record { kind = x.kind; gift = x.gift; fault = x.fault }

-- and the other way
abbrev pub expected_of : Awaited → Expected
expected_of x = record { kind = x.kind; gift = x.gift; fault = x.fault }

-- the same where a body may wait for nothing
abbrev pub expected_in : Option Awaited → Option Expected
expected_in None = None
expected_in (Some x) = Some (expected_of x)

-- what was given to a make
abbrev pub whole_of : Meaning → Whole
whole_of m = record { kind = m.kind; wild = cond m.wild 1 0; owes = owed_of m.promise }

-- what vertex 1 owes: nothing
abbrev pub no_debt : Owed
no_debt = record { gift = pos 0; fault = no_fault; moves = 0 }

-- one move less
abbrev pub less_move : Owed → Owed
less_move o = record o { moves = o.moves - 1 }
