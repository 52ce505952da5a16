pub use Rattle.prettyless_laws.proofs.ShownItems
pub use Rattle.prettyless_laws.proofs.Inline
pub use Rattle.prettyless_laws.proofs.LineEnds
pub use Rattle.prettyless_laws.proofs.NeverFlat
pub use Rattle.prettyless_laws.proofs.Sequences
pub use Rattle.prettyless_model.proofs.SpacedTexts
