-- `Body for Script`: each event by `ScriptEvent` (specs/Scripts), which has the clauses of `advance` together.
-- Promises: what steps promise is lawful for their finish, and a move weighs less than three of its steps.
-- Events: what a script gives, takes inside and is resumed with keeps the contract. The one idea: a script promises what
--   its steps do, and a finish's total is known from its steps, so what it is resumed with can be compared.
pub mod Promises
pub mod Events
