pub mod Tree
pub mod Nest
pub mod FlatRelation
pub mod TreeModel
pub mod NestModel
