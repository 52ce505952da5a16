-- How a document that is laid again is put together.
pub use Rattle.toml_documents.proofs.AgainLaws.{after_gap, blank_bits, bracketed, bracketed_bits, edge_bits, gap_bits, line_bits}
pub use Rattle.toml_documents.proofs.AgainLaws.{optional_comma, with_optional_comma}
pub use Rattle.prettyless_laws.proofs.NodesAgain.{again_append, again_flat_group, again_group, again_nest, again_same}
pub use Rattle.toml_documents.proofs.SeparatedAgain.{again_broken, again_lexeme, again_separated, again_text}
pub use Rattle.toml_documents.proofs.ChangedAgain.{again_flat_blank, again_flat_blank_fill, again_flat_trailed, again_trailed}
pub use Rattle.toml_documents.proofs.BracketsAgain.{again_bracketed, again_flat_bracketed, again_lines}
pub use Rattle.toml_documents.proofs.JoinedAgain.{IsPlainWord, again_joined, again_joined_after, again_joined_words, again_then_same}
pub use Rattle.toml_documents.proofs.JoinedAgain.{plain_lexeme, plain_words}
pub use Rattle.prettyless_laws.proofs.LayoutsAgain.{again_layout}
pub use Rattle.prettyless_laws.proofs.Spellings.{layout_written}
