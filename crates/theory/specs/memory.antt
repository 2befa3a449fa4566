pub mod TheoryReads
