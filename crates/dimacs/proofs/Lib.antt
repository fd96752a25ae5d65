pub mod ClauseLaws
pub mod CountLaws
pub mod SetLaws
