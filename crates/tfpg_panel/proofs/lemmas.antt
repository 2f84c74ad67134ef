pub use Rattle.tfpg_base.proofs.lemmas.lists.Elements
pub mod KeptPanels
pub mod PanelItems
pub mod Tellings
pub mod RoundsInTurn
