mod ByKind
mod Words
