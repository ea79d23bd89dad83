-- The clauses `turned` of ArriveCall::turn and DepartCall::turn (specs/Arrivals, specs/Departures): from the clauses
-- `view` and `rule` of add_root and sub_root.
-- Told: after a departure that took the last unit, the share knows that it is told.
-- The one idea: the step of the call's stage is the step of the table, and its clause is carried over.
pub mod Coming
pub mod Leaving
