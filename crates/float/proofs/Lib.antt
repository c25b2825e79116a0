mod Scans
mod Values
mod Tens
