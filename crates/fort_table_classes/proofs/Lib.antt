pub mod SymbolTests
