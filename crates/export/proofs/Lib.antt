pub mod ExportedLaws
