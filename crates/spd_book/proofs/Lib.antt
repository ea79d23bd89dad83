-- The clauses of offer and fault: the steps of spd_rule, read as what they do to the word and the promise (Takes).
-- The clauses of collect: two looks one after the other, the second of which tells what was awaited (Finds).
-- The words of gifts: `gift_of` of spd_debts says what each stands for (Words).
pub mod Takes
pub mod Finds
