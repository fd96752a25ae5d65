pub mod ProgramLaws
