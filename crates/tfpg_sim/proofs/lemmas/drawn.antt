-- Generated graphs and scripts.
pub mod GraphTexts
pub mod GeneratedGraphs
pub mod DrawnVersions
pub mod GeneratedScripts
