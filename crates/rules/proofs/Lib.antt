-- The guide to the theorems: what each module is about, from the bottom up.

-- bytes, bits, numbers, lists in parts
pub mod BytesLaws
pub mod Cut
pub mod Powers
pub mod Masks
pub mod BoolLaws
pub mod PartLaws
-- the device: its numbers, its fields by name and by number, what a declared device stands for
pub mod ScalarLaws
pub mod FieldLaws
pub mod Same
pub mod Numbers
pub mod Typed
pub mod ViewLaws
-- an act's steps: one by one, what every act keeps, what each may do (and the pieces and register arms that calls share), where it leads
pub mod Steps
pub mod Keeps
pub mod Proper
pub mod Each
pub mod Pieces
pub mod Arms
pub mod Leads
pub mod Grown
-- undoing: one record, a group, an act that is refused, an act that is taken back
pub mod Undo
pub mod Back
pub mod Free
pub mod Took
-- demand 3: rows of calls and take-backs, the calls that stand, what holds all along
pub mod History
pub mod Standing
pub mod Lasts
pub mod Through
pub mod Bench
pub mod BenchWorlds
pub mod Demand3
pub mod Along
-- the calls: by cases, what they answer, what refuses them, what they leave alone
pub mod CallLaws
pub mod Told
pub mod Refusals
pub mod Added
pub mod Stays
pub mod Hearing
-- demand 1: no test of the rules is left out or made in vain, and every call ends
pub mod PassLaws
pub mod Linked
pub mod Guards
pub mod Ends
-- document 01's own examples, and traps that an easy misreading falls into
pub mod AgainstTraps
pub mod Marked
