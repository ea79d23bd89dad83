-- `check`: `Answers` over `faults_of`, one list of all faults in the order of the text. Passing: of several faults the first
--   is told. Equations: what the list says of each kind of statement. LastStatements: a block returns by its last one.
-- `Code::tree`: `program_code` of spd_code. CodeEquations: what the code of each kind of statement is, and the names that
--   it binds. OneMain: without faults there is one main. Meanings: main by places is main by names (`MeansItself`).
--   Lined: lines stay within 32 bits (`HasLines`).
--   Placing: where nothing stands wrong, functions say nothing to a finish around their calls (`AreSilent`).
pub mod Passing
pub mod Equations
pub mod LastStatements
pub mod CodeEquations
pub mod Lined
pub mod OneMain
pub mod Meanings
pub mod Placing
