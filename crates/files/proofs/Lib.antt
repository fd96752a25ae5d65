pub mod FilesLaws
pub mod PastLaws
