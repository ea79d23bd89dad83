-- `read_command`, `asked_of`: Numbers, an argument's value that was found is a number of 32 bits, and those of a command lie in their
--   ranges; Decimals, digits are what `parse` reads; CommandLines, a command's word is a line with lawful words behind it.
-- `are_lawful`, `arguments_in`: Testing, what one word more does to the test; PlainWords, a value begins with no hyphen; Falls,
--   words that fit are operands and options in some order; Once, an option's word stands as often as the option is given.
-- `parse`, only want of memory: ClapWalk, what one word does to the walk of `clap`; ClapRows, what it holds are the arguments so
--   far; ClapFlags, what it adds at the end for a flag; Apart, no argument is given twice; ClapReads, by induction over the words;
--   ClapTakes, for the parser of each command.
pub mod Decimals
pub mod PlainWords
pub mod Testing
pub mod Falls
pub mod Once
pub mod ClapWalk
pub mod ClapRows
pub mod ClapFlags
pub mod Apart
pub mod ClapReads
pub mod ClapTakes
pub mod Numbers
pub mod CommandLines
