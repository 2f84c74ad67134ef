-- How many alternatives an allowed clause has, which they are, and how small.
pub mod ClauseFound
pub mod Dues
pub mod MustAlternatives
pub mod SomeAlternative
pub mod FewAlternatives
pub mod SmallAlternatives
