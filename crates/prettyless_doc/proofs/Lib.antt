mod Ledgers
mod Rendered
mod Streaming
