-- What an evaluation gives: one list of acts, in the order in which they happen. All that a reader wants is read off it.
use Rattle.std.specs.Prelude.{ℕ, zero, suc, ◌+◌, List, [], ◌∷◌, ℤ}
use Rattle.std.specs.List.{flat_map}

-- what begins and ends: an async, a finish, and a call of a function or a run of a task
pub data Piece : Type 0 where
  Async : Piece
  Finish : Piece
  Call : Piece

pub data Act : Type 0 where
  -- a value, and the code of a fault, for the finish around it
  Offer : (value : ℤ) → Act
  Code : (code : ℕ) → Act
  -- what a print writes
  Line : (text : List ℕ) → Act
  Begin : (piece : Piece) → Act
  -- the end of the piece that is open and began last
  Over : Act
  -- one statement, or one turn of a loop: no result reads it, and machines end by it
  Tick : Act

abbrev pub Acts : Type 0
Acts = List Act

-- ---- what is read off

abbrev pub offer_in : Act → List ℤ
offer_in (Offer value) = value ∷ []
offer_in _ = []

abbrev pub code_in : Act → List ℕ
code_in (Code code) = code ∷ []
code_in _ = []

abbrev pub line_in : Act → List (List ℕ)
line_in (Line text) = text ∷ []
line_in _ = []

-- An async and a finish are a move each.
abbrev pub piece_moves : Piece → ℕ
piece_moves Async = 1
piece_moves Finish = 1
piece_moves Call = 0

abbrev pub act_moves : Act → ℕ
act_moves (Begin piece) = piece_moves piece
act_moves _ = 0

abbrev pub tick_in : Act → ℕ
tick_in Tick = 1
tick_in _ = 0

abbrev pub offers_of : Acts → List ℤ
offers_of acts = flat_map offer_in acts

abbrev pub codes_of : Acts → List ℕ
codes_of acts = flat_map code_in acts

-- the texts that prints write, each without its newline
abbrev pub lines_of : Acts → List (List ℕ)
lines_of acts = flat_map line_in acts

-- one for each async and each finish
unfoldable pub moves_of : Acts → ℕ
moves_of [] = 0
moves_of (a ∷ acts) = act_moves a + moves_of acts

unfoldable pub work_of : Acts → ℕ
work_of [] = 0
work_of (a ∷ acts) = tick_in a + work_of acts

-- The moves of each job of main, where so many pieces are open and the job that is under way has so many moves.
-- A finish and a call are a job each, in place of those inside them.
unfoldable pub jobs_from : ℕ → ℕ → Acts → List ℕ
jobs_from depth moves [] = []
jobs_from zero moves (Begin piece ∷ acts) = jobs_from 1 0 acts
jobs_from (suc depth) moves (Begin piece ∷ acts) = jobs_from (suc (suc depth)) (moves + piece_moves piece) acts
jobs_from zero moves (Over ∷ acts) = jobs_from zero moves acts
jobs_from (suc zero) moves (Over ∷ acts) = moves ∷ jobs_from zero 0 acts
jobs_from (suc (suc depth)) moves (Over ∷ acts) = jobs_from (suc depth) moves acts
jobs_from depth moves (_ ∷ acts) = jobs_from depth moves acts

abbrev pub jobs_of : Acts → List ℕ
jobs_of acts = jobs_from 0 0 acts

-- ---- what others see of it

-- what a finish passes on of what is given inside it: beginnings, ends and ticks
abbrev pub passed_in : Act → Acts
passed_in (Begin piece) = Begin piece ∷ []
passed_in Over = Over ∷ []
passed_in Tick = Tick ∷ []
passed_in _ = []

abbrev pub passed : Acts → Acts
passed acts = flat_map passed_in acts

-- what a step of a machine says: offers, codes, lines and the beginnings of pieces
abbrev pub said_in : Act → Acts
said_in (Offer value) = Offer value ∷ []
said_in (Code code) = Code code ∷ []
said_in (Line text) = Line text ∷ []
said_in (Begin piece) = Begin piece ∷ []
said_in _ = []

abbrev pub said : Acts → Acts
said acts = flat_map said_in acts

-- the beginnings of moves
abbrev pub mark_in : Piece → Acts
mark_in Async = Begin Async ∷ []
mark_in Finish = Begin Finish ∷ []
mark_in Call = []

-- what the finish around it hears: offers, codes and moves, since a line is for main's reader alone
abbrev pub heard_in : Act → Acts
heard_in (Offer value) = Offer value ∷ []
heard_in (Code code) = Code code ∷ []
heard_in (Begin piece) = mark_in piece
heard_in _ = []

abbrev pub heard : Acts → Acts
heard acts = flat_map heard_in acts

abbrev pub beginning_in : Act → Acts
beginning_in (Begin piece) = Begin piece ∷ []
beginning_in _ = []

-- the pieces that begin
abbrev pub beginnings : Acts → Acts
beginnings acts = flat_map beginning_in acts
